pub mod PathLines
pub mod VertexLines
