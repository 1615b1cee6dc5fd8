pub mod Growing
pub mod Numbered
pub mod Crossing
