pub mod CornerLaws
pub mod BarLaws
pub mod StraightLaws
