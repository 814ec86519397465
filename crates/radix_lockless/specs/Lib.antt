pub mod Form
pub mod Packed
pub mod Path
pub mod Spot
pub mod Store
pub mod Table
pub mod Trie
