pub mod ById
pub mod Turns
