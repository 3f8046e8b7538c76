pub mod Closings
pub mod Executing
pub mod Following
pub mod Forking
pub mod Listing
pub mod Numbered
pub mod Waiting
