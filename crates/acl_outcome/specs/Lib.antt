pub mod Ends
pub mod Outcome
pub mod inside
