pub mod Square
pub mod Pairs
