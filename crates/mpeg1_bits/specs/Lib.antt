pub mod Bits
pub mod Requires
