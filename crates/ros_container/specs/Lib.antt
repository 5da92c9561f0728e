pub mod Rows
pub mod Files
pub mod Encodings
pub mod Held
pub mod Parts
pub mod Readable
