pub mod AgreeLemmas
pub mod LongestLemmas
pub mod OrderLemmas
pub mod PrefixLemmas
pub mod RangeLemmas
