pub mod Descent
pub mod Whole
pub mod Turn
pub mod Result
pub mod Check
