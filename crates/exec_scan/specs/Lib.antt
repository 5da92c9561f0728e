pub mod Batches
pub mod Counting
pub mod Opened
pub mod Passing
pub mod Reading
pub mod Scanning
pub mod Retaining
