pub mod Items
pub mod Requires
pub mod Next
