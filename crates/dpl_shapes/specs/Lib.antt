pub mod Refusals
pub mod Types
pub mod Straight
pub mod Strokes
