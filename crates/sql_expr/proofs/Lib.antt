pub mod Deep
pub mod Ranks
pub mod Turns
