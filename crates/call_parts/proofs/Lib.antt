pub mod Checking
pub mod Closed
pub mod Numbered
pub mod OnePiece
pub mod Opened
pub mod Parts
pub mod Reading
pub mod Writing
