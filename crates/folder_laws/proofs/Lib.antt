pub mod Whole
pub mod Alike
pub mod Begun
pub mod Open
pub mod Moved
