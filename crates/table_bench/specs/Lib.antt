pub mod Flows
pub mod Live
pub mod Phases
pub mod Versions
pub mod Words
