pub mod Told
pub mod Keyed
