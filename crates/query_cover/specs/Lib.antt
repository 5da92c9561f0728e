pub mod Enough
pub mod Seen
