-- Laws of the tree's definitions, which the proofs of several functions and the promises cite.
pub mod Cells
pub mod Climb
pub mod Steps
pub mod Gathers
pub mod Promised
pub mod Through
pub mod Chains
