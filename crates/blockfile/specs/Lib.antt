pub mod Held
pub mod Reads
