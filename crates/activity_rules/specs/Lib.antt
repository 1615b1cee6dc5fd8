pub mod Looks
pub mod Tightened
