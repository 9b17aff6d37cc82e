-- Laws of the first accepted word, of floats by their exact values, and of the floats that are made of a word.
pub mod First
pub mod Place
pub mod Value
pub mod FromBits
