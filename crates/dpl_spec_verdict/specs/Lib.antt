pub mod Order
pub mod Gains
pub mod Masks
pub mod Conflicts
