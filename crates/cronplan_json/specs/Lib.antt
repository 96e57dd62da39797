pub mod Objects
pub mod PlanJson
