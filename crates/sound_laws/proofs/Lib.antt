pub mod Pairs
pub mod Created
pub mod Changes
pub mod Committed
pub mod Moved
pub mod Marked
pub mod Widened
pub mod Storable
