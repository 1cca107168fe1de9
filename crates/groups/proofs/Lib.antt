pub mod Pending
pub mod Arrays
pub mod LaidOut
pub mod TopGroup
pub mod FirstChild
pub mod NextGroup
pub mod Settled
