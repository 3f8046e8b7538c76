pub mod Word
pub mod Arith
pub mod Access
pub mod Meaning
pub mod Harts
