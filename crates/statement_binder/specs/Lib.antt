pub mod Scopes
pub mod Answers
pub mod Measures
