pub mod Held
pub mod Loading
pub mod Refused
pub mod HeldFile
