-- The questions that are asked about a day: each is answered, as the schedule says.
pub mod DayAnswers
pub mod FieldShapes
pub mod QuestionsInTurn
pub mod ScheduledAnswers
