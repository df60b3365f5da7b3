pub mod SquareLaws
pub mod ChangeLaws
pub mod LineLaws
