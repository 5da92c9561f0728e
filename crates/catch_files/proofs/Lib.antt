pub mod Pieces
pub mod Splits
pub mod Names
