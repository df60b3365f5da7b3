pub mod Grips
pub mod Hands
pub mod Ports
pub mod Rule
