pub mod Stores
pub mod Judged
pub mod Gates
pub mod Wires
pub mod Whole
