pub mod Options
pub mod OneFault
pub mod Levels
pub mod Asked
pub mod Served
pub mod HelpText
pub mod Driven
