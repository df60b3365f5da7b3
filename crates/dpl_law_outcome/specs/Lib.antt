pub mod Laws
pub mod ReadBack
pub mod Own
pub mod OwnFiles
pub mod Fewer
pub mod Alone
pub mod Drawn
