pub mod EdgeStarts
pub mod TaskColumns
pub mod Readiness
