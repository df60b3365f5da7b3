pub mod Pieces
pub mod Orders
pub mod Joins
