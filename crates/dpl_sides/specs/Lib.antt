pub mod Corners
pub mod Pieces
pub mod Noted
pub mod Sided
pub mod Standing
