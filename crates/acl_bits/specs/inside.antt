pub mod RowLaws
pub mod RowWords
