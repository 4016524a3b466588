pub mod Slots
pub mod Columns
pub mod Lending
pub mod Laws
pub mod Rows
pub mod Batches
pub mod Listed
pub mod Examples
