pub mod CutLemmas
pub mod EditLemmas
pub mod NameLemmas
pub mod TouchLemmas
