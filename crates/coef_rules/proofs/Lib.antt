pub mod Looks
pub mod Columns
pub mod Excess
