pub mod Arrays
pub mod Going
pub mod State
pub mod Wired
pub mod Answered
