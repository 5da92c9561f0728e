pub mod Blocks
pub mod Judged
pub mod Adding
pub mod Collected
pub mod Found
