-- Definitions that private contracts alone cite.
pub mod CountedPlan
pub mod Gaps
pub mod Meetings
pub mod MomentsUntil
pub mod Once
