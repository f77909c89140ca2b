pub mod PlanLaws
pub mod SliceLaws
