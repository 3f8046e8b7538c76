pub mod Places
pub mod Changes
pub mod Laid
pub mod Freed
pub mod Replaced
pub mod Formed
pub mod Copied
pub mod Owned
