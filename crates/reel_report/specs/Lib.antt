pub mod Planes
pub mod Text
pub mod Report
