pub mod LineRead
pub mod Expected
pub mod VertexRead
pub mod EdgeRead
pub mod LinkRead
pub mod TaskOrEnd
pub mod Answers
