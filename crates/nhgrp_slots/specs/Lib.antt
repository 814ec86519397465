pub mod Laws
pub mod Layout
pub mod Order
pub mod PathList
pub mod PathStore
pub mod Slots
pub mod Spread
pub mod Target
