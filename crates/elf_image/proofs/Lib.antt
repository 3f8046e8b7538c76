pub mod Tables
pub mod Lists
pub mod Sharing
pub mod Faults
pub mod OnLiterals
pub mod Bounds
pub mod Reading
mod Rows
