pub mod Ids
pub mod Lifts
pub mod Pairs
pub mod Ratios
pub mod Starts
pub mod Takings
