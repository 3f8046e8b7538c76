pub mod World
pub mod Descriptors
pub mod Files
pub mod Spaces
pub mod Processes
pub mod Runs
