pub mod BisectLemmas
pub mod CompareLemmas
pub mod EitherLemmas
pub mod HalfLemmas
pub mod SeekLemmas
