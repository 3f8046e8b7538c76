pub mod Freeing
pub mod Names
pub mod Numbers
pub mod Tried
