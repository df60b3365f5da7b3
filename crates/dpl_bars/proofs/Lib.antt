mod Steps
pub mod AloneLaws
