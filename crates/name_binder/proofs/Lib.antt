pub mod Named
pub mod Parts
pub mod Sights
pub mod Walks
pub mod Theres
