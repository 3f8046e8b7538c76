pub mod Making
pub mod Turning
pub mod Writing
pub mod Booting
pub mod Choosing
pub mod Chances
pub mod Rounds
pub mod Ending
