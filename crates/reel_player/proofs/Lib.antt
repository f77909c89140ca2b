pub mod PlayLaws
pub mod ItemLaws
