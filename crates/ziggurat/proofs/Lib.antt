-- Laws of the magnitude and of a round.
pub mod Magnitude
pub mod Promised
