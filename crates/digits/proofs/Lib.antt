pub mod Worths
pub mod Spelled
pub mod Pairs
pub mod Counting
