pub mod Misplaced
pub mod Judged
