pub mod Lefts
pub mod Noting
pub mod Restoring
