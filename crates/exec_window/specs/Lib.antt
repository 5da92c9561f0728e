pub mod Walks
pub mod Leads
pub mod Partitions
