pub mod Turning
pub mod Composing
pub mod Knowing
