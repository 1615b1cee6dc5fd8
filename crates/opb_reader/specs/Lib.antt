pub mod Later
pub mod Shapes
pub mod Holding
pub mod Reading
