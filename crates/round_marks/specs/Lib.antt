pub mod Stamping
pub mod Forming
pub mod Marking
pub mod Soles
