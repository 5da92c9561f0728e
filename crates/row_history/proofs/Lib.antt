pub mod Histories
pub mod Inserting
pub mod Taking
