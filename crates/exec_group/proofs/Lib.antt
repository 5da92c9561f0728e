pub mod Coded
pub mod Columnwise
pub mod Counting
pub mod Entering
pub mod Growing
pub mod Keys
pub mod More
pub mod Noted
pub mod Numbered
pub mod Pairing
pub mod Rising
pub mod Spans
pub mod Together
pub mod Totals
mod Done
