pub mod Entries
pub mod DoubletonEquation
