pub mod OrderedRing
pub mod Model
pub mod Cosines
pub mod About
pub mod Nearness
pub mod Accuracy
pub mod Witnesses
