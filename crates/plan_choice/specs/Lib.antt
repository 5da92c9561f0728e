pub mod Covering
pub mod Bounding
pub mod Choosing
pub mod Methods
