pub mod ByColumn
pub mod Epochs
pub mod Filled
pub mod Marks
pub mod Orders
