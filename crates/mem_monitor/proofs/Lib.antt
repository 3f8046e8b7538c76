pub mod Cleared
pub mod Copying
pub mod Answered
