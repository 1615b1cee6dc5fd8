pub mod Texts
pub mod Presolved
pub mod Proving
