pub mod Number
pub mod Bytes
pub mod Rest
pub mod Zeros
