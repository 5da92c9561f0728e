pub mod Flawed
pub mod Accepted
pub mod Bags
