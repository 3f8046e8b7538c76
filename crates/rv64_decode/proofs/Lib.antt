mod Apart
mod Groups
mod Masks
mod Ranges
pub mod Registers
mod Rows
