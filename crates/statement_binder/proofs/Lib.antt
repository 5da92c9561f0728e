pub mod Splitting
pub mod Exact
pub mod Factored
pub mod Refused
pub mod Scoped
pub mod Stars
pub mod Growing
pub mod ItemLists
