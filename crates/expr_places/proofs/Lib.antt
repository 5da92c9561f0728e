pub mod Same
pub mod Looks
pub mod UsedColumns
