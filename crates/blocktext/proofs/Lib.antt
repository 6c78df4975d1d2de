pub mod InTime
pub mod BlockLaws
