pub mod Dxr
pub mod Making
