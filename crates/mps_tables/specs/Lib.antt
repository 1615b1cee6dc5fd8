pub mod Ranges
pub mod Reads
pub mod Slots
pub mod Tables
pub mod Writes
