pub mod Flags
pub mod Ascending
