pub mod Zeros
pub mod Pieces
pub mod Accesses
pub mod Stores
pub mod FastPath
pub mod Spaces
pub mod Clearing
mod Rows
