pub mod Fewer
pub mod Laws
pub mod Masks
