pub mod Seen
pub mod Forms
