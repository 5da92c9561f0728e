pub mod Adding
pub mod Bare
pub mod Inserting
pub mod Places
pub mod Planned
pub mod Projecting
pub mod Querying
