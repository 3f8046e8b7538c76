pub mod Moving
pub mod Numbers
pub mod Rows
pub mod Tried
pub mod Vectors
