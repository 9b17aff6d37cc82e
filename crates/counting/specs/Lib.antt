-- Sums of lists, and sums, counts and questions over the numbers below one.
pub mod Sum
pub mod Below
