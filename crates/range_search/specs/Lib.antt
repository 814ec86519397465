pub mod Bisect
pub mod Range
