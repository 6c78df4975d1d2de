pub mod Wires
pub mod Marks
pub mod Order
pub mod Chain
pub mod Counts
