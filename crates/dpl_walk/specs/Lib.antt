pub mod Cells
pub mod Kept
pub mod Least
pub mod Walk
pub mod Ways
