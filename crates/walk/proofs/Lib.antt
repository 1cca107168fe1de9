pub mod Places
pub mod Stepping
pub mod Running
pub mod Paths
pub mod Same
pub mod Told
