pub mod RunLaws
pub mod AnswerLaws
pub mod OneAnswer
