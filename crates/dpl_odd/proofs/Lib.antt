pub mod LevelLaws
pub mod ParentLaws
pub mod PathLaws
pub mod ReportLaws
pub mod TableLaws
pub mod AllLaws
