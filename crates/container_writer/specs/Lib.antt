pub mod Ordered
pub mod Writing
