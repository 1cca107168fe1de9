pub mod Groups
pub mod Lent
