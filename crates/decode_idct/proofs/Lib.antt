pub mod Factors
pub mod Columns
pub mod Halves
pub mod Passes
pub mod DcAlone
