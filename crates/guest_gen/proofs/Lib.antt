pub mod OneByOne
pub mod Made
pub mod Texts
