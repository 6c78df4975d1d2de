pub mod Misplaced
pub mod Judgement
