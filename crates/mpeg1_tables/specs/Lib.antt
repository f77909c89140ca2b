pub mod Code
pub mod AnnexB
pub mod Table
pub mod WordList
pub mod Rule
