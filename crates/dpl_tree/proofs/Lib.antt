pub mod BlockLaws
pub mod ItemLaws
pub mod SearchLaws
pub mod SetLaws
pub mod StoredLaws
pub mod TransposedLaws
