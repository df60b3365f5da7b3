pub mod Touching
pub mod Sheets
