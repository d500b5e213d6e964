pub mod Hospital
pub mod Sample
pub mod inside
