pub mod CurveLaws
pub mod TicksLaws
