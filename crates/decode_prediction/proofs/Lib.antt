pub mod LineLaws
pub mod FitLaws
pub mod MeanLaws
