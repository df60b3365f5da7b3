pub mod Crossing
pub mod Rects
pub mod Rooting
pub mod Parents
pub mod Sheeting
pub mod Tiles
pub mod Slabs
pub mod Finding
