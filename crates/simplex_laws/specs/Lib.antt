pub mod Choices
pub mod LimitRoom
pub mod Runs
pub mod Solved
pub mod Outcomes
