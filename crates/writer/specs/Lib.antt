pub mod Written
pub mod Demands
pub mod Settled
