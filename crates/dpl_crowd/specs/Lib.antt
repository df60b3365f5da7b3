pub mod Crowds
pub mod Walking
