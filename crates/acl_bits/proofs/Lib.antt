pub mod BitStrings
pub mod FlagLists
pub mod FlagWords
pub mod Members
pub mod Windows
pub mod Words
mod Firsts
