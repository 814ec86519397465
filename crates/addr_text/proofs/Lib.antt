pub mod AddressLemmas
pub mod DigitLemmas
pub mod NumberLemmas
pub mod OctetLemmas
pub mod PrefixGrammarLemmas
pub mod PrefixTextLemmas
