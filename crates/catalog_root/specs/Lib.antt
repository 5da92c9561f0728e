pub mod Root
pub mod Listed
pub mod Crash
pub mod Quiet
