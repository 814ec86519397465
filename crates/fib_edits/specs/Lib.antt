pub mod Edits
pub mod Laws
pub mod Named
pub mod Touching
