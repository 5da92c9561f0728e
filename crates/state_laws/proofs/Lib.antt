pub mod Places
pub mod Tables
pub mod Held
pub mod Stale
pub mod Dropped
pub mod Events
pub mod Shaped
pub mod Unshaped
pub mod Commits
pub mod Marked
pub mod Fits
mod Loaded
pub mod Reached
pub mod Added
