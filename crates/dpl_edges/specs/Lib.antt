pub mod Found
pub mod Fixed
pub mod InCells
pub mod Meetings
