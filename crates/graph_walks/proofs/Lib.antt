pub mod PathSteps
pub mod Sources
pub mod Runs
