pub mod Forest
pub mod Near
pub mod Reached
pub mod Search
