pub mod Lists
pub mod Fields
pub mod Unknown
pub mod Entries
pub mod Whole
mod Rows
pub mod Bounds
pub mod Limits
