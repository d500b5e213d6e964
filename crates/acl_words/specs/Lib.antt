pub mod Command
pub mod Options
pub mod CommandLines
pub mod Prefixes
pub mod Files
pub mod inside
