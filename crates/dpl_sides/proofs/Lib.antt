pub mod CornerLaws
pub mod Noting
pub mod Ranks
pub mod Places
pub mod Moved
pub mod StandingLaws
