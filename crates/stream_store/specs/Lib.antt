pub mod Applying
pub mod Configs
pub mod Kept
pub mod Refusals
pub mod Seats
pub mod Stores
pub mod Openings
pub mod Opened
