pub mod Counts
pub mod Place
pub mod GoesOut
pub mod Inner
