pub mod Tree
pub mod Lines
pub mod Sound
pub mod Computes
pub mod Worked
pub mod Finer
