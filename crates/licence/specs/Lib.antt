pub mod Forms
pub mod BodyText
pub mod BodyRefusals
pub mod Body
pub mod Sealed
pub mod Keys
