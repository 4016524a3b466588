pub mod Kept
pub mod Owned
pub mod Machine
pub mod OwnedReady
pub mod Touched
