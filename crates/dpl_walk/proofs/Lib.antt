pub mod ListLaws
pub mod WalkLaws
pub mod BarImages
pub mod KeptLaws
pub mod StackLaws
pub mod LeftLaws
pub mod WayLaws
pub mod ShortLaws
