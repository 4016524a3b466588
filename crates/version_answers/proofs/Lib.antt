pub mod NamedRows
pub mod NumberedAnswers
