pub mod Written
pub mod Bytes
pub mod Lengths
pub mod Writing
pub mod Examples
