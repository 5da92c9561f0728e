pub mod OneText
pub mod Scripts
pub mod Lasting
pub mod Movers
