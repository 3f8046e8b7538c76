pub mod Healing
pub mod Steps
pub mod Laws
