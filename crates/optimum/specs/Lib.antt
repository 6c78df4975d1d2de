pub mod Tree
pub mod Head
pub mod Handout
pub mod Increases
pub mod Gates
pub mod Runs
pub mod BlockTree
