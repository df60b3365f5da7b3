pub mod Clashes
pub mod Contents
pub mod Findings
pub mod Layers
pub mod Marks
pub mod Ranks
pub mod Stitches
