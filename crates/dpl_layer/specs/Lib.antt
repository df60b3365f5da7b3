pub mod Naming
pub mod Reading
pub mod Marked
pub mod Drawn
pub mod LayerFaults
pub mod View
pub mod Many
