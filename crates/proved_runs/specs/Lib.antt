pub mod Rays
pub mod Solved
pub mod Verified
