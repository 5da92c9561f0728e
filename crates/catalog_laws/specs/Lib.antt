pub mod Going
pub mod Entries
