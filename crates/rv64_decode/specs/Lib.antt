pub mod Encoding
pub mod Laws
pub mod Leaves
pub mod Table
pub mod Text
