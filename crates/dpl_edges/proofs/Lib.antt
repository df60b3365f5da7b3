pub mod Windows
pub mod Fixing
pub mod Gathering
pub mod Finding
pub mod Conflicts
