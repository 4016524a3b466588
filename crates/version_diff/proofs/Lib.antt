pub mod Apart
pub mod LeftOut
pub mod Onward
pub mod PassedOver
pub mod Seen
