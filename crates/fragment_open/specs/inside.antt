pub mod Climbing
pub mod SettledProps
