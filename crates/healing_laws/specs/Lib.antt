pub mod Answering
pub mod Beside
pub mod Emptying
pub mod Forms
pub mod Moving
pub mod Playing
pub mod Refusals
pub mod Running
