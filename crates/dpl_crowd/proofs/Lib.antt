pub mod NearLaws
pub mod MeetLaws
pub mod LevelLaws
pub mod LeastLaws
pub mod ForkLaws
