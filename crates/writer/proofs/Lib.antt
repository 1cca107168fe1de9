pub mod PartLines
pub mod TableLines
pub mod Outcomes
pub mod Answers
pub mod Demands
