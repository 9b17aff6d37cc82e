-- The definitions that the contracts of the checker cite: what slots lend, how many pairs draw an index, and a file for each public call.
pub mod Shares
pub mod Check
pub mod Weights
