pub mod Sorting
pub mod ByName
pub mod Appended
pub mod Telling
mod Rows
