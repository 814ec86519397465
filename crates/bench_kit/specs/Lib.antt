pub mod Draws
pub mod Fault
pub mod Words
