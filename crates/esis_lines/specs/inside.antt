pub mod CodeValues
