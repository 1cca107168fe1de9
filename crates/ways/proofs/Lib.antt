pub mod Ways
pub mod Taken
pub mod Turns
pub mod PathsAreWays
pub mod RowsAreLoads
