pub mod Numbers
pub mod ReadBack
pub mod ReadOps
pub mod Rows
