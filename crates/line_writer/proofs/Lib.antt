pub mod ExplanationLaws
