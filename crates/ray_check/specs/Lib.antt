pub mod Room
pub mod Deciding
