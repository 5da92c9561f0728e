pub mod Covered
pub mod Bounded
pub mod Narrowest
pub mod Sorted
pub mod Worked
pub mod Chosen
