pub mod Orders
pub mod Walking
pub mod Ranks
pub mod Leading
pub mod Whole
pub mod Settling
pub mod Placing
pub mod Ending
