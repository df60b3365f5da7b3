pub mod MarkLaws
pub mod TakeLaws
pub mod SpreadLaws
pub mod SourceLaws
pub mod OrderLaws
pub mod PartLaws
