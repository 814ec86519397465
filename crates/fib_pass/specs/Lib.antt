pub mod Closing
pub mod Laws
pub mod Lookups
pub mod Totals
pub mod Views
