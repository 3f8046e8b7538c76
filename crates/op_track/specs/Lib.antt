pub mod Targets
pub mod Tracked
pub mod Laws
