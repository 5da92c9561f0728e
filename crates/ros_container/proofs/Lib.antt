pub mod Kept
pub mod Stored
pub mod Columns
pub mod SameRows
pub mod Blames
pub mod Reading
pub mod Long
pub mod Defaults
