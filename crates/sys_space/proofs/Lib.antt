pub mod Free
pub mod Lent
pub mod Numbered
pub mod Row
pub mod Twice
