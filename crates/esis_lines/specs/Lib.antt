pub mod DocumentAnswers
pub mod DocumentText
pub mod Input
pub mod LineForms
pub mod LineMachine
pub mod LineRefusals
pub mod inside
