pub mod SlacksLaws
pub mod CurveLaws
