pub mod Processors
pub mod Owners
pub mod Laws
