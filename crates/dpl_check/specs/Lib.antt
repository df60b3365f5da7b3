pub mod Findings
pub mod Owned
pub mod Cutting
pub mod Places
pub mod Anchors
pub mod Claims
