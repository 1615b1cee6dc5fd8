pub mod Faultless
pub mod Named
