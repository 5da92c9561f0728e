pub mod Blanks
pub mod Closing
pub mod Cuts
pub mod Lands
pub mod Parts
pub mod Quoting
pub mod Shifted
pub mod Unclosed
