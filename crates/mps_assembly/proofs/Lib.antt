pub mod Assembling
pub mod Spreading
