pub mod Flaws
pub mod Storing
