pub mod Going
pub mod Faultless
pub mod Names
