pub mod NumberLaws
pub mod NameLaws
pub mod SpaceLaws
pub mod ProgressLaws
