pub mod Parted
pub mod Told
pub mod Shared
pub mod Found
pub mod Blames
pub mod Resting
pub mod Quiet
