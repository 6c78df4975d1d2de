pub mod BlockWords
pub mod Gathered
