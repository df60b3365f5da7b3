mod Joining
mod MaskLaws
pub mod SheetLaws
pub mod InkLaws
pub mod RestLaws
