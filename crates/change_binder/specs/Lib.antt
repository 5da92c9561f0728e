pub mod Answers
pub mod Flaws
