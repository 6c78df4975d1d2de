pub mod Sought
pub mod Picked
