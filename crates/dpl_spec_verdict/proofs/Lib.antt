pub mod GainLaws
pub mod OrderLaws
