pub mod Reader
pub mod Field
pub mod Record
pub mod Turn
