pub mod DivisorLemmas
pub mod LayoutLemmas
pub mod PathLemmas
pub mod PathOrder
pub mod SlotLemmas
pub mod SpreadLemmas
pub mod TargetOrder
