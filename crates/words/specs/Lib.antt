-- What a pool of words gives: numbers below a total, and floats.
pub mod First
pub mod Below
pub mod Floats
