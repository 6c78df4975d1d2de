pub mod Kinds
pub mod Seen
