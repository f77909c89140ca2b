pub mod Applies
pub mod Limit
pub mod Misfit
pub mod Worked
