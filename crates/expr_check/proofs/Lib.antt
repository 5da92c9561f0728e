pub mod Caps
pub mod Factors
