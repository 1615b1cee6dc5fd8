pub mod Assembled
pub mod Columnwise
pub mod Definitions
