pub mod AtHand
pub mod Fitting
pub mod Following
