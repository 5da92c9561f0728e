pub mod Quoted
pub mod Scripts
pub mod Unfinished
