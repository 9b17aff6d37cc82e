-- Laws of the numbers and of the order of refusals, which every other crate cites.
pub mod Order
pub mod Named
pub mod Draws
