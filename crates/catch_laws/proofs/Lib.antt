pub mod Epochs
pub mod Committed
pub mod Pending
pub mod Ends
