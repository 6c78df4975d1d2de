pub mod Plan
pub mod Stored
pub mod GateHeads
