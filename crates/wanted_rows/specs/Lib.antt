pub mod Wanted
pub mod Picked
pub mod Taking
pub mod Spans
