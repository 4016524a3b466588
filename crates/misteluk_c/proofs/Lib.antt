pub mod Memory
pub mod Pushes
