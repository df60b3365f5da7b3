pub mod Blocks
pub mod StoredItems
pub mod Trees
pub mod Windows
