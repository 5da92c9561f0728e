pub mod Telling
pub mod BagLaws
pub mod MapLaws
pub mod Fronts
pub mod Truths
pub mod Lists
