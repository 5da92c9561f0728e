pub mod Changes
pub mod Permutes
pub mod Refused
pub mod Sound
pub mod Committed
