pub mod ListingLemmas
pub mod PlanCourseLemmas
pub mod StandingLemmas
