pub mod Faults
pub mod Checks
pub mod Objects
pub mod Plans
pub mod Laws
