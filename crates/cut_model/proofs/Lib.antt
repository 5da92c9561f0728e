pub mod Again
pub mod Least
pub mod Entries
pub mod Cutting
pub mod Reading
pub mod Uncut
pub mod Staying
