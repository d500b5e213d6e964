pub mod Lists
pub mod PredicateLaws
pub mod StateLaws
pub mod RowLaws
pub mod TextLaws
pub mod NameLaws
pub mod WalkLaws
