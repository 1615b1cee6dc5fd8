pub mod Words
pub mod Formats
pub mod Written
pub mod AreCards
