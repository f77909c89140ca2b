pub mod State
pub mod Reconstruction
pub mod MacroblockRecord
pub mod Step
pub mod Symbols
pub mod Picture
pub mod Requires
pub mod Alone
