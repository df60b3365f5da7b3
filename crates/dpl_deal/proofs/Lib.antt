pub mod Arming
pub mod Dealings
pub mod Moves
pub mod Takings
pub mod Tries
pub mod Rounds
