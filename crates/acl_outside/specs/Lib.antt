pub mod Fakes
pub mod Noted
pub mod Outside
pub mod WrittenText
pub mod inside
