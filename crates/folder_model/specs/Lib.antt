pub mod Projections
pub mod Tables
pub mod Reopening
pub mod Standing
pub mod Changing
