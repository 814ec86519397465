pub mod Address
pub mod Laws
pub mod Number
pub mod PrefixText
