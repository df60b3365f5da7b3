pub mod Active
pub mod Upward
pub mod Fronts
pub mod Sweeps
