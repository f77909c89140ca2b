pub mod Field
pub mod Record
