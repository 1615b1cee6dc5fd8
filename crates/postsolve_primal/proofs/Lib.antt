pub mod Lifts
pub mod Points
pub mod Summing
