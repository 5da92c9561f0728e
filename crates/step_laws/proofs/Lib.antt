pub mod Moves
pub mod Named
pub mod Inserted
pub mod Copied
pub mod Steps
pub mod Runs
