pub mod Read
pub mod Words
pub mod Increment
pub mod Extra
pub mod Coefficient
pub mod Onward
pub mod Residual
