pub mod Prefix
pub mod Branch
pub mod Table
pub mod Rule
pub mod Product
