pub mod Segments
pub mod Spans
pub mod Laws
