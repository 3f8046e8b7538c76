mod Corners
pub mod Digits
pub mod Products
pub mod Writes
