pub mod Walks
pub mod Looks
