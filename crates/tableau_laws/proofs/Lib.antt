pub mod Joins
pub mod Pivots
pub mod Keeps
pub mod Starts
