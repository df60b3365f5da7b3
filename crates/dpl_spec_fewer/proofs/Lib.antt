pub mod Flips
pub mod Ends
pub mod Painting
