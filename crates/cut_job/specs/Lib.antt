pub mod Listed
pub mod Cutting
pub mod Blamed
