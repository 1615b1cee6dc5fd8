pub mod AnswerText
pub mod Given
pub mod Solving
