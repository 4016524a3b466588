pub mod States
pub mod Slots
pub mod Servers
pub mod Machine
pub mod Collected
