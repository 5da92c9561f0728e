pub mod Enough
pub mod OneList
pub mod Ordered
