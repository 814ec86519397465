pub mod Batch
pub mod Sum
