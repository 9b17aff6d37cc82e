-- Laws of sums and of counts.
pub mod Sums
pub mod Below
