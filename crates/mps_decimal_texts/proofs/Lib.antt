pub mod Numbers
pub mod Cards
pub mod Texts
