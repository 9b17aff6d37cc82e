-- Laws of the alias table, and the proofs of its functions.
pub mod Slices
pub mod Places
pub mod Chains
pub mod Splits
pub mod Turns
pub mod Settles
pub mod Scales
pub mod Promised
