-- Laws of a power by its bits, of one attempt and of the draw.
pub mod Powers
pub mod Attempts
pub mod Promised
