pub mod Commits
pub mod Moves
