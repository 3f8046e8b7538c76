pub mod Breaks
pub mod Own
pub mod Names
pub mod Naming
pub mod Looks
pub mod Rows
pub mod Runs
pub mod Placed
pub mod Ready
pub mod Within
mod Examples
