pub mod Number
pub mod Shape
