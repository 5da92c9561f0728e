pub mod Equal
pub mod Ors
