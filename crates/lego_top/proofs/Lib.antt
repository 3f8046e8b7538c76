pub mod Lines
pub mod Causes
pub mod LeftBehind
pub mod Limits
pub mod Fetching
pub mod Files
pub mod Exact
