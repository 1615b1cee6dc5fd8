pub mod Breaks
pub mod Texts
