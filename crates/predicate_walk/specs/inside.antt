pub mod Met
pub mod NameRows
pub mod States
pub mod KeptTexts
