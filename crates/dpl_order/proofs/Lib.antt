pub mod PieceLaws
pub mod Orders
pub mod Permuted
pub mod JoinLaws
