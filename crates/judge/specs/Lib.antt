pub mod Judged
pub mod Whole
pub mod Desk
pub mod Demands
pub mod GoesOut
pub mod Settled
pub mod Places
pub mod Inner
