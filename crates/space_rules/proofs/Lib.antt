pub mod Mapping
pub mod Adding
pub mod Strings
pub mod Telling
pub mod Few
pub mod LowestPlace
mod Rows
