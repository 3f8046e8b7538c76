pub mod Start
pub mod Standing
pub mod Told
pub mod Mapped
pub mod Place
pub mod Pages
