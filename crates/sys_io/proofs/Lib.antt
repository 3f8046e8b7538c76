pub mod Entries
pub mod Filled
pub mod Moving
pub mod Sending
