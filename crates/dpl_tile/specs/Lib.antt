pub mod Adding
pub mod Tiles
pub mod Plans
pub mod Laws
pub mod Kept
pub mod Meetings
pub mod Bounds
