pub mod Holding
pub mod Listing
pub mod Rooting
pub mod Whole
