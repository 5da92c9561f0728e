pub mod Matching
pub mod Seeing
pub mod Keeping
