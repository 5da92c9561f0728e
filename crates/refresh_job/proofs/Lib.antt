pub mod Narrowed
pub mod Ended
pub mod Vectors
