pub mod BlockLemmas
pub mod FragmentLemmas
