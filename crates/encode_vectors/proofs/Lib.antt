pub mod PairLaws
pub mod ReachLaws
