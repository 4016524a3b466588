pub mod ByTarget
pub mod Paths
