pub mod Adapters
pub mod Tries
