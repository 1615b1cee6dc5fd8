pub mod Shapes
pub mod Firsts
