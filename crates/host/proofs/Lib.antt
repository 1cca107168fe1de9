pub mod Telling
pub mod Wide
pub mod Settled
