pub mod Chunking
pub mod Ruling
pub mod Noticing
