pub mod Taking
pub mod Held
pub mod Counting
pub mod Earning
pub mod Reaching
