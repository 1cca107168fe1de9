pub mod Put
pub mod Pens
