pub mod FilledBits
pub mod Flags
pub mod Row
pub mod inside
