pub mod Refusals
pub mod Drafts
pub mod Links
