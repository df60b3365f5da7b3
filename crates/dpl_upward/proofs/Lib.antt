pub mod Orders
pub mod ActiveLaws
pub mod UpwardLaws
pub mod FrontLaws
