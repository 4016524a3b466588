pub mod BatchRefusals
pub mod Rounds
pub mod Links
