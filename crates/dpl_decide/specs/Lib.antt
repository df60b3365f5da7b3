pub mod Deciding
pub mod Many
pub mod View
pub mod Waits
