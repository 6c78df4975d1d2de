pub mod Steps
pub mod Activities
pub mod Savings
