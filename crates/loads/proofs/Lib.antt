pub mod Fronts
pub mod PutRows
pub mod AllRows
pub mod FollowingRows
