pub mod Entries
pub mod Numbers
pub mod Outcomes
pub mod Holds
