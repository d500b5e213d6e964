pub mod LevelSteps
pub mod RuleLaws
pub mod OutcomeLaws
