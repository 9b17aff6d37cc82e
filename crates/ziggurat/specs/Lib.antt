-- The definitions that the contract of a ziggurat round cites, and its answer in numbers.
pub mod Round
pub mod Numbers
