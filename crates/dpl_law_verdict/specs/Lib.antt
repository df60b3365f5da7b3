pub mod Own
pub mod Valid
pub mod Lines
pub mod Written
pub mod Flips
