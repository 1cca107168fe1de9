pub mod LargerCells
pub mod Rows
pub mod Building
pub mod WholeStretch
pub mod Nodes
pub mod CellBounds
pub mod RowsRise
