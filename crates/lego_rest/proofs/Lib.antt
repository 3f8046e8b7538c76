pub mod Resting
mod Rows
mod HealingRows
