pub mod WrapLaws
pub mod VectorLaws
