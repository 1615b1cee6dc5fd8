pub mod Sums
pub mod Holding
