pub mod AgeLemmas
pub mod BookLemmas
pub mod LawLemmas
pub mod LeastLemmas
pub mod NamingLemmas
pub mod PlaceLemmas
pub mod SearchLemmas
pub mod VersionLemmas
