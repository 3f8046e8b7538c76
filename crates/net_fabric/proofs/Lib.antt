pub mod Losing
pub mod Choosing
