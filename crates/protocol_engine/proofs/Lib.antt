pub mod Flags
pub mod Forgetting
pub mod Pending
pub mod Coming
pub mod Crashing
pub mod Delivering
pub mod Playing
pub mod Turning
