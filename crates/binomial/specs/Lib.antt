-- The definitions that the contracts of the binomial draw cite: a setup's numbers, one attempt, and a file for each public call.
pub mod Tests
pub mod Setup
pub mod New
pub mod Numbers
pub mod Attempt
pub mod Draw
