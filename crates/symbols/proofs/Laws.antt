pub mod Size
pub mod Header
pub mod MacroblockType
