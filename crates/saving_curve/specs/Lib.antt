pub mod Position
pub mod Reach
