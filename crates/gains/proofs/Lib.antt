pub mod Sums
pub mod Held
pub mod Activities
pub mod Sources
pub mod Earnings
pub mod Exceeding
