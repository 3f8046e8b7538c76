pub mod Pages
pub mod Tried
