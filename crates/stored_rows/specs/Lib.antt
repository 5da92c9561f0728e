pub mod Listed
pub mod Held
pub mod Stored
pub mod Early
