pub mod PathBytes
pub mod Grammar
pub mod PathReading
pub mod PathMachine
pub mod PathAnswers
pub mod Canonical
pub mod Counting
