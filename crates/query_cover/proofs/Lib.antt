pub mod Blanked
pub mod Same
pub mod Permuted
pub mod Placed
pub mod Less
pub mod Enough
