pub mod Begins
pub mod Request
