pub mod Column
pub mod Read
pub mod Held
