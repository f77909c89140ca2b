pub mod Requires
pub mod LookUp
pub mod SliceStart
pub mod Difference
pub mod Coefficient
pub mod Large
