pub mod Opened
pub mod Coming
pub mod Following
pub mod Opening
pub mod Ending
