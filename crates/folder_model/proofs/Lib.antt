pub mod LastGoods
pub mod ListedFiles
pub mod CutTables
pub mod Inserting
pub mod Marked
pub mod Taking
pub mod Committing
