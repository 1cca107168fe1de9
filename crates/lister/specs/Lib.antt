pub mod Place
pub mod Follow
