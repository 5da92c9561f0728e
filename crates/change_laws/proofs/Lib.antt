pub mod Undeleted
pub mod Marked
pub mod Deleted
pub mod Typed
pub mod Known
pub mod Updated
