pub mod Accumulators
pub mod Codes
pub mod Columns
pub mod Counted
pub mod Groups
pub mod MetNumbers
pub mod NumberKeys
pub mod Rising
