pub mod File
pub mod Image
pub mod Laws
