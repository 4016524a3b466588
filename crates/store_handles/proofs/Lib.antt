pub mod Pointers
pub mod Pairs
