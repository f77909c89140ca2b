pub mod Written
pub mod Bytes
pub mod Records
