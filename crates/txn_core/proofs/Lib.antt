pub mod Changed
pub mod Taken
