pub mod Graph
pub mod Marks
pub mod Order
pub mod Parts
pub mod Sources
