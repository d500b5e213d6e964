pub mod WholeFile
pub mod FileEnds
pub mod inside
