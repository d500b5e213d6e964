pub mod Compile
pub mod Run
pub mod Meaning
pub mod ReadBack
pub mod inside
