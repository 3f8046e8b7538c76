pub mod Parts
pub mod Reached
pub mod Texts
pub mod Tried
