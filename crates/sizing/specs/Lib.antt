pub mod Ticks
pub mod Raise
pub mod Pairs
