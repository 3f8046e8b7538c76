pub mod Runs
pub mod Gap
pub mod Cover
