-- The definitions that the contracts of the tree cite: how a store is read, the tests of the refusals, and a file for each public call.
pub mod Store
pub mod Step
pub mod Path
pub mod Tests
pub mod New
pub mod IsValid
pub mod Get
pub mod Pop
pub mod Push
pub mod Update
pub mod Walk
pub mod Draw
pub mod IsSound
