pub mod Going
pub mod Rows
pub mod Stops
pub mod Tried
