pub mod Counting
pub mod Steps
pub mod Rows
pub mod Spanning
pub mod Taking
pub mod Whole
