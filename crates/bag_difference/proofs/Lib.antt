pub mod Orders
mod Walks
