pub mod Capped
pub mod Terms
