pub mod Names
pub mod Seen
