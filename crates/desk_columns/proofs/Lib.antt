pub mod Fed
pub mod Inserted
pub mod Listed
pub mod Opened
pub mod Replayed
pub mod SentBatches
