pub mod Joining
pub mod Ending
pub mod Lending
