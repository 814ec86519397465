pub mod Edit
pub mod Nodes
pub mod Rows
pub mod Starts
pub mod Sweep
pub mod View
