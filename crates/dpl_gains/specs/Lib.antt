pub mod Held
pub mod Tallies
