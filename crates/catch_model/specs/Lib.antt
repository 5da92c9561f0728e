pub mod Added
pub mod Caught
pub mod Refused
