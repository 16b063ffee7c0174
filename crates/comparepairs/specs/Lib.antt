pub mod PairSearch
pub mod Pairs
