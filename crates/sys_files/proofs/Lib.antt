pub mod Naming
pub mod Pipes
