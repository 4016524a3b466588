pub mod Feeding
pub mod Opening
pub mod Replay
