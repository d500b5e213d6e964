pub mod Consuming
pub mod Leaving
pub mod Noting
pub mod Placing
pub mod Remaining
pub mod Taking
pub mod Trying
