pub mod Corners
pub mod Figures
