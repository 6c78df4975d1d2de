pub mod Call
pub mod Computed
pub mod Table
pub mod Finer
