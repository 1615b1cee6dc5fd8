pub mod RunEnds
pub mod Answers
