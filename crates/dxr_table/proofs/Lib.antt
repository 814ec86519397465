pub mod AnswerLemmas
pub mod ChunkLemmas
