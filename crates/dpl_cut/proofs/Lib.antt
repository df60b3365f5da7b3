pub mod SameZones
pub mod Cuts
pub mod Keys
