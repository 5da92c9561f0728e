pub mod Joins
pub mod Lists
pub mod Blocks
pub mod TwoFiles
pub mod Vectors
pub mod Named
pub mod Epochs
