pub mod Number
pub mod Occurrences
