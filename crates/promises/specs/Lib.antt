-- The definitions that the promises add to those of the contracts.
pub mod Tree
pub mod Alias
pub mod History
pub mod Rows
pub mod Stars
pub mod Exports
