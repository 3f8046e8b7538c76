pub mod Parts
pub mod Answers
pub mod Pending
pub mod Fits
pub mod Heals
pub mod Rest
pub mod Laws
