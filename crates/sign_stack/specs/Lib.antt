pub mod SignLevels
pub mod RuleRows
