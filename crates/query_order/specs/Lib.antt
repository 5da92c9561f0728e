pub mod Enough
pub mod OneList
