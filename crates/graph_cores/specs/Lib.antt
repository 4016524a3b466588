pub mod Peel
pub mod Rows
pub mod Tallies
