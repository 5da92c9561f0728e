pub mod Settled
pub mod Replaced
