pub mod StateLists
pub mod PredLists
pub mod TableLaws
pub mod ReadLaws
pub mod TagLaws
pub mod RunLaws
