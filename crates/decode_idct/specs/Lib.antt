pub mod Transform
pub mod Factors
pub mod Line
pub mod Answer
