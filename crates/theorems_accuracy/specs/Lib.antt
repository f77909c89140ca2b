pub mod Ends
pub mod Fraction
pub mod ExactSum
pub mod OrderedRing
pub mod Cosines
