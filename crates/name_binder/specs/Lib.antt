pub mod Refusing
pub mod Tables
pub mod Looks
