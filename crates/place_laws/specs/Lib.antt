pub mod Choosing
pub mod Marks
pub mod Standing
