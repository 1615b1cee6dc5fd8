pub mod Alike
pub mod Chosen
pub mod Shapes
