pub mod Cut
pub mod Loaded
