pub mod Job
pub mod Merged
pub mod Oldest
pub mod Putting
