pub mod SoughtLaws
pub mod ChainLaws
pub mod FinishLaws
