pub mod Breaks
pub mod Ending
pub mod InTurn
