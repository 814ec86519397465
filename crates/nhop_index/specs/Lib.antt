pub mod Ages
pub mod Book
pub mod Indexes
pub mod Laws
pub mod Merge
pub mod Table
