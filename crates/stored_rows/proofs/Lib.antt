pub mod OneList
pub mod KeptRows
pub mod ReadRows
pub mod Memories
pub mod EarlyCuts
pub mod EarlyHeld
