pub mod Listed
pub mod Cutting
pub mod Fronts
pub mod Blamed
