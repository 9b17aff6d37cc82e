-- The definitions that the contracts of the exports cite: the cells of an answer, and a promise for each export.
pub mod Cells
pub mod Tree
pub mod Alias
pub mod Words
pub mod Binomial
pub mod Ziggurat
