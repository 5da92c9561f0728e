pub mod ByName
pub mod Least
pub mod Taken
pub mod Shapes
pub mod Next
