-- Laws of bytes and the numbers they spell.
pub mod Spells
pub mod Fills
