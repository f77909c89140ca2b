pub mod CaseLaws
pub mod LineLaws
pub mod BlockLaws
pub mod LoopLaws
