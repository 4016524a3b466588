pub mod Decimal
pub mod Taking
pub mod Giving
pub mod Refusals
pub mod Examples
pub mod Faults
pub mod LeftRows
