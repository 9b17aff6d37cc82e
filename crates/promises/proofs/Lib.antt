-- The promises: theorems over the definitions that the contracts cite.
pub mod Hits
pub mod Weigh
pub mod Makes
pub mod Keeps
pub mod Sound
pub mod Counts
pub mod History
pub mod Rows
pub mod TreeTable
pub mod AliasTable
pub mod FloatTable
pub mod Determined
pub mod Exports
pub mod Stars
pub mod Balance
pub mod Alias
