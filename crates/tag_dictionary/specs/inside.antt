pub mod Index
pub mod NameReading
