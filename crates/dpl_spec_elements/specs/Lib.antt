pub mod Reals
pub mod Motions
pub mod Boundaries
pub mod Paths
