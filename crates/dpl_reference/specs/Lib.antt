pub mod Faults
pub mod Copies
pub mod Roles
