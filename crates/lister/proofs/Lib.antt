pub mod CountLoop
pub mod Places
pub mod AllPlaces
