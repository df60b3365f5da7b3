pub mod Straightness
pub mod Keeping
pub mod Drawing
pub mod Stroking
pub mod Members
pub mod Corners
pub mod Faults
pub mod Ends
