pub mod Counting
pub mod GoesOut
pub mod NextPlace
