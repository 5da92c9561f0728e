pub mod Stamps
pub mod Below
pub mod Fronts
pub mod Bad
pub mod Faults
pub mod Cuts
pub mod Joins
