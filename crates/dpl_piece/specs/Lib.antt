pub mod Cutting
pub mod Pieces
pub mod Share
pub mod Made
pub mod Wholes
pub mod View
pub mod Bars
pub mod Adding
