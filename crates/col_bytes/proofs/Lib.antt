pub mod Codecs
pub mod Vints
pub mod Pushed
pub mod Texts
pub mod Widths
pub mod Combine
pub mod ReadOn
pub mod Whole
