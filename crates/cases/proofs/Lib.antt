pub mod Asking
pub mod Horizons
pub mod Stretches
