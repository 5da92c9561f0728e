mod Readings
mod Blames
mod Quieted
mod Recovered
mod Started
pub mod Unblamed
pub mod Untouched
mod Absent
mod There
