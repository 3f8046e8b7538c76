pub mod Sinks
pub mod Sources
pub mod Depots
pub mod Calls
pub mod Objects
pub mod Looked
pub mod Inputs
pub mod Places
