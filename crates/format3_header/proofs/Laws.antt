pub mod Header
pub mod FileStart
