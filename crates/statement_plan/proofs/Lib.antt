mod Taken
mod Joining
mod Sources
mod Owners
mod Marked
mod Shaped
mod Alike
mod Early
mod Carried
mod Standing
mod Good
pub mod Filled
