pub mod Load
pub mod Reports
