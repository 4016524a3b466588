pub mod Dictionaries
pub mod Operations
