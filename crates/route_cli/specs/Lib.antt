pub mod Cause
pub mod Result
pub mod Status
pub mod Words
