pub mod Spellings
pub mod Fronts
pub mod Parts
