pub mod Faults
pub mod Feeding
pub mod Lessening
pub mod Placing
pub mod Reading
pub mod Taking
pub mod Counting
