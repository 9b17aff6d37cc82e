-- The definitions that the contracts of the alias table cite: the tests of the refusals, what a pair draws, and a file for each public call.
pub mod Tests
pub mod WeightSum
pub mod Pair
pub mod New
pub mod Lists
pub mod Draw
