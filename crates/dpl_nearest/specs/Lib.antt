pub mod Few
pub mod Nearest
pub mod Search
