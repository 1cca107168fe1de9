pub mod Headers
pub mod Sequence
