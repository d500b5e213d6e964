pub mod Attributes
pub mod Numerals
pub mod Progress
