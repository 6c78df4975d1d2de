pub mod Copy
pub mod Planted
pub mod TreeWords
