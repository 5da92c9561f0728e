pub mod Retaining
pub mod Anew
pub mod Turns
pub mod Assembled
pub mod Late
pub mod Vectors
