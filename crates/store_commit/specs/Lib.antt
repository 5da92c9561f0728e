pub mod Seen
pub mod Making
pub mod Replacing
