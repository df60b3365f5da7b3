pub mod Anchors
pub mod Sheets
pub mod Conflicts
pub mod Flat
pub mod Cycles
pub mod Lines
pub mod View
pub mod Many
