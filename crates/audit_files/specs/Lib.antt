pub mod Walks
pub mod Columns
