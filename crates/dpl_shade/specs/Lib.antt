pub mod Rows
pub mod Walks
pub mod Items
pub mod Shading
pub mod Ends
