pub mod Puts
pub mod Edges
pub mod Numbers
pub mod Runs
pub mod Packed
pub mod Openings
