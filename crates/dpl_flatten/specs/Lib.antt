pub mod Links
pub mod Least
pub mod Wants
pub mod Totals
pub mod Drawn
pub mod Cells
pub mod Drawing
pub mod Loops
