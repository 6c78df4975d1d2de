pub mod Demands
pub mod Told
pub mod Ending
pub mod Judging
pub mod GainLaws
pub mod CallLaws
pub mod TableLaws
