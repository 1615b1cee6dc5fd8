pub mod Looks
pub mod Sides
