pub mod Reduction
pub mod Slots
pub mod Invariant
pub mod Network
pub mod Nodes
pub mod Rooted
pub mod Reduce
pub mod Ascending
