pub mod Forgotten
pub mod Flags
