pub mod Outputs
pub mod Ready
pub mod Sides
pub mod Joining
pub mod Runs
pub mod Windows
