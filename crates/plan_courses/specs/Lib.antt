pub mod AnswerLaws
pub mod CourseLaws
pub mod JobCourses
pub mod PlanCourses
pub mod Schedules
pub mod Subscripts
