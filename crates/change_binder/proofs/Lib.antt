pub mod Changing
pub mod Deleting
pub mod FirstOnes
pub mod Settled
pub mod Storing
