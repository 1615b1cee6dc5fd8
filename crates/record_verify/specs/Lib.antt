pub mod Stepping
pub mod Verified
