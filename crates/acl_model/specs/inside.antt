pub mod Form
pub mod StreamExamples
