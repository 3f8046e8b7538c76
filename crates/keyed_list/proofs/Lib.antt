pub mod Order
pub mod Listed
pub mod Found
pub mod Spans
