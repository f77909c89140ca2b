pub mod Part
pub mod References
