pub mod Ruled
pub mod Sound
pub mod InOrder
pub mod Parts
pub mod Tasks
pub mod Tables
pub mod Forms
