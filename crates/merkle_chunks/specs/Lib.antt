pub mod Layout
pub mod HeaderBytes
pub mod Strings
pub mod Table
pub mod File
pub mod inside
