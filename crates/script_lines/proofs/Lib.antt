pub mod TableRows
pub mod OwnLabels
