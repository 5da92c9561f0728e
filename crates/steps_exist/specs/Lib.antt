pub mod Exist
