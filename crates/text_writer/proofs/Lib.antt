pub mod NumberLaws
pub mod OccurrenceLaws
pub mod DistinctLaws
pub mod PutLaws
