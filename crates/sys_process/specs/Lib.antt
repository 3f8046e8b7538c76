pub mod Ends
pub mod Exec
pub mod Strings
pub mod Tried
pub mod Words
