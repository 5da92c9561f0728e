pub mod Lines
pub mod Phrases
pub mod Symbols
pub mod Makers
pub mod Modes
pub mod Expressions
pub mod Queries
pub mod Spells
