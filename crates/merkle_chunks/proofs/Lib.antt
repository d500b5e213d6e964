pub mod Places
pub mod CountLemmas
pub mod PieceLemmas
pub mod TableLemmas
pub mod WriteLemmas
pub mod LevelLemmas
pub mod LayoutLemmas
pub mod CipherLemmas
pub mod NameLemmas
pub mod FileLemmas
mod CountRows
pub mod RangeLemmas
pub mod StreamBytes
