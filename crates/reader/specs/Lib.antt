pub mod Record
pub mod Settled
pub mod Inner
