pub mod Configured
pub mod ReceiptLaws
pub mod Rows
pub mod Seated
pub mod Shelved
pub mod SeatNumbers
