pub mod Number
pub mod Records
pub mod Fields
pub mod Commands
pub mod Script
