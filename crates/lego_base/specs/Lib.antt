pub mod Space
pub mod Counts
pub mod Pieces
pub mod Keys
pub mod Files
