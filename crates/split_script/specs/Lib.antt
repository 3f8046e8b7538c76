pub mod Cuts
pub mod Now
pub mod Touches
pub mod Regions
pub mod Script
pub mod Seen
pub mod Laws
