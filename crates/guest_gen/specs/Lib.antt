pub mod Assembly
pub mod Draws
pub mod Guests
pub mod Image
pub mod Jobs
pub mod Text
