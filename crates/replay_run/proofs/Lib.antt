pub mod FamilyLemmas
pub mod PacketLemmas
pub mod ReplayLemmas
pub mod ReplyLemmas
pub mod ShowLemmas
pub mod SurveyLemmas
