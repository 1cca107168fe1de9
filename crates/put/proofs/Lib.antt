pub mod Lines
pub mod Pens
