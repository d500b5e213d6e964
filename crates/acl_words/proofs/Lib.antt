pub mod Sizes
pub mod OptionLaws
pub mod Goings
pub mod PrefixLaws
