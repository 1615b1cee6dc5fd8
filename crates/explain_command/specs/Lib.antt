pub mod Telling
pub mod Running
pub mod Answers
