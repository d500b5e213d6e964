pub mod Faults
pub mod Measured
pub mod Measures
pub mod Tallies
