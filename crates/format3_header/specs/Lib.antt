pub mod Header
pub mod Lengths
pub mod FileStart
