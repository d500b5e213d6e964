pub mod Kept
pub mod BoundExamples
