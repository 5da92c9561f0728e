pub mod Jobs
pub mod Goods
pub mod NeverFalls
pub mod Cuts
pub mod Sounds
