pub mod Cards
pub mod Sections
pub mod MpsText
