pub mod Far
pub mod Sums
