pub mod Tiles
pub mod Clean
pub mod Answered
pub mod Held
pub mod Windows
pub mod Kept
