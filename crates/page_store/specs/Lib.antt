pub mod Store
pub mod Spots
