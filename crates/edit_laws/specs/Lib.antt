pub mod Sizes
pub mod Telling
