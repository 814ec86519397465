pub mod Counters
pub mod Course
pub mod Laws
pub mod PlanCourse
pub mod Standing
pub mod VersionTable
pub mod Versions
