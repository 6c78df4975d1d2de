pub mod Digits
pub mod Value
pub mod Placed
