pub mod Standing
pub mod Making
pub mod Turns
pub mod Left
pub mod Outcomes
pub mod Written
pub mod Runs
pub mod Booted
