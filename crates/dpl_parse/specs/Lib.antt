pub mod Reading
pub mod Spelled
pub mod Heads
pub mod SpelledHeads
