pub mod Counting
pub mod Cached
pub mod Fits
pub mod Hand
pub mod Laws
