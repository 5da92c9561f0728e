pub mod Roots
mod Commits
mod Searches
mod Bodies
mod Listings
pub mod Sweeps
pub mod Crashing
pub mod Quieting
