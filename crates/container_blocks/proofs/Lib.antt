pub mod Columns
pub mod OneBlock
pub mod Faults
pub mod Numbers
pub mod Picked
pub mod Unstored
pub mod Indexes
