pub mod Linked
pub mod Replaying
pub mod Linking
pub use Rattle.store_core.specs.Running
