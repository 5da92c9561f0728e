pub mod Memory
pub mod Order
