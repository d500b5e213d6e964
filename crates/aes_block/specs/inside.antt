pub mod Examples
pub mod Schedules
pub mod ColumnWords
