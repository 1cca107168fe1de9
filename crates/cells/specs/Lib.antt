pub mod Cells
pub mod Laid
pub mod Inner
pub mod Parts
