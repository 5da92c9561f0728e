pub mod Closing
pub mod Sequels
