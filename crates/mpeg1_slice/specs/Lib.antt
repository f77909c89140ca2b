pub mod Read
pub mod Increment
pub mod Vectors
pub mod Blocks
pub mod Macroblock
pub mod Slice
pub mod Answers
