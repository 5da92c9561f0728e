pub mod Bounded
pub mod Magnitudes
pub mod Narrow
pub mod Steps
pub mod Settled
pub mod Parts
