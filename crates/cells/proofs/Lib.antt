pub mod Cursors
pub mod Filled
pub mod Alike
pub mod Narrowed
pub mod Turns
pub mod Laid
