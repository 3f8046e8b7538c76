pub mod Pages
pub mod Canonical
pub mod Unique
pub mod Gaps
pub mod Lengths
pub mod Covers
pub mod Places
mod Rows
