pub mod State
pub mod Vectors
pub mod Slice
pub mod Plan
pub mod Requires
