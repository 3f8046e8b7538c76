pub mod CountLaws
pub mod SinkLaws
pub mod SourceLaws
pub mod DepotLaws
pub mod EntryLaws
pub mod ReadLaws
mod Rows
