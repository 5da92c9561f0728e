pub mod Apart
pub mod Chains
pub mod Places
pub mod SameKeys
