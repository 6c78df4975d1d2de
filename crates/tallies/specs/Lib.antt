pub mod Tallies
pub mod Queue
