pub mod Lookups
pub mod Nearby
pub mod Paths
pub mod Rows
pub mod Searches
pub mod Tables
pub mod Texts
pub mod Views
