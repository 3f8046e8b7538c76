pub mod Report
pub mod Archive
