pub mod Effects
pub mod Lawful
pub mod Laws
pub mod Lent
pub mod Made
pub mod Tried
