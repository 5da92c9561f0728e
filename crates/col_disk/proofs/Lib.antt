pub mod Moving
mod Listing
pub mod Keeping
mod Crashed
