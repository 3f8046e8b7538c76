pub mod Ready
pub mod Tried
