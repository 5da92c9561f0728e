pub mod Values
pub mod Kinds
pub mod Bounds
pub mod Used
pub mod Outputs
pub mod Printed
