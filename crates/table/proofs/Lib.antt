pub mod Record
pub mod Records
pub mod Vertices
pub mod Largest
pub mod Holding
