pub mod Opening
pub mod SourceSteps
pub mod WritingSteps
