pub mod Sheets
pub mod Summing
pub mod Boards
pub mod Tournaments
pub mod Blocks
pub mod Starts
pub mod Cores
