pub mod Unique
pub mod Outcome
pub mod HeldLaws
