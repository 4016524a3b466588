pub mod Frontiers
pub mod Marking
pub mod Searches
pub mod Tables
pub mod Trees
pub mod Walks
pub mod LabelRows
