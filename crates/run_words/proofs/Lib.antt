pub mod Digits
pub mod WordForms
pub mod DirRows
pub mod DirPlaces
pub mod DirTaken
pub mod Parses
