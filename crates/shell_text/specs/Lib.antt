pub mod Pieces
pub mod Commands
pub mod Excerpts
pub mod Tables
pub mod Schemas
