pub mod Letters
pub mod Masks
pub mod Faults
