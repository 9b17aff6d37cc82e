-- Laws of the checker, and the proofs of its functions.
pub mod Agreeing
pub mod Lending
pub mod Pairs
pub mod Judging
pub mod Promised
