pub mod Pieces
pub mod FastPath
pub mod Spaces
pub mod Access
