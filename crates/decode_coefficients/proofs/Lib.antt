pub mod Ranges
pub mod Range
pub mod SoFar
pub mod MarkLaws
