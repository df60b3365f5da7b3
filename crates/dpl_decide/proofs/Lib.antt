pub mod Layers
pub mod Marking
pub mod Waiting
pub mod Zips
