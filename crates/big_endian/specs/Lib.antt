-- What bytes spell.
pub mod Bytes
