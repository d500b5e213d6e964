pub mod StreamLemmas
pub mod ShownLemmas
pub mod OrderLemmas
pub mod ReadingLemmas
pub mod WholeLemmas
pub mod FileLemmas
