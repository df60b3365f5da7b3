pub mod NearLaws
pub mod UnitLaws
pub mod ItemLaws
pub mod PairLaws
pub mod FewLaws
