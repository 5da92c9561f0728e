pub mod Joined
pub mod Renewed
pub mod Assembled
pub mod Remaining
pub mod Vectors
