pub mod Above
pub mod Stretches
pub mod Witness
