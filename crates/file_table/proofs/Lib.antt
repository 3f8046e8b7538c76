pub mod Numbered
pub mod Pieces
pub mod Named
pub mod Blocks
