pub mod Truths
pub mod inside
