pub mod CurveKnown
