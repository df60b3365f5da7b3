pub mod Elements
pub mod Structures
pub mod Placements
pub mod Points
pub mod Faults
