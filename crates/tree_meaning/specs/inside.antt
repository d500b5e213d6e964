pub mod Decided
pub mod Known
pub mod StepMarks
pub mod Shows
pub mod ExplainWalk
