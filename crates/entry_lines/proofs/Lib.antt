pub mod Named
pub mod Places
pub mod Deleting
pub mod Counting
pub mod LiveTerms
pub mod Crossing
pub mod Below
pub mod Putting
