-- The numbers of the refusals, the order of a call's refusals, and what the answers tell.
pub mod Number
pub mod Outcome
pub mod Answers
