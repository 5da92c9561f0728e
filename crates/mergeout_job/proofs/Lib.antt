pub mod Begun
pub mod Growing
pub mod Installed
pub mod Picks
pub mod Put
pub mod Vectors
