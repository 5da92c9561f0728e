pub mod Readings
pub mod Classes
pub mod Dates
pub mod Readers
pub mod Gives
