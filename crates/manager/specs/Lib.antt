pub mod Counting
pub mod Tables
pub mod Sound
pub mod Words
