pub mod Placed
pub mod Mapping
mod Rows
