pub mod Behind
pub mod Body
