pub mod Columns
pub mod NameTexts
pub mod SearchSteps
pub mod WeightSums
