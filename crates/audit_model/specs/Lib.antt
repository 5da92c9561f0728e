pub mod First
pub mod Listed
pub mod Rows
pub mod Pairs
pub mod Verdicts
pub mod Judging
