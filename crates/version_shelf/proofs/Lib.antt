pub mod Rights
pub mod Adding
pub mod Steps
pub mod Openings
pub mod Showing
