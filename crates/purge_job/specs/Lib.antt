pub mod Purging
