mod Answered
mod Ranges
mod Stepped
mod Doing
mod Held
mod Moved
mod Worked
mod Works
mod Marked
mod Served
mod Rows
mod Copied
pub mod Named
pub use Rattle.store_core.proofs.Shown
pub use Rattle.store_core.proofs.Unblamed
