pub mod Copies
pub mod Status
pub mod Board
pub mod Laws
