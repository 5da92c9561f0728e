pub mod Loaded
pub mod Sound
pub mod Reading
pub mod Marking
pub mod Blocks
pub mod Candidates
pub mod Widening
pub mod Kept
