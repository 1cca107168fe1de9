pub mod Counting
pub mod Fronts
pub mod Filling
pub mod Witnesses
