pub mod Holding
pub mod Counting
pub mod Stepping
pub mod Retold
