pub mod Concluding
pub mod Sources
pub mod Running
pub mod Sharing
pub mod Beside
pub mod RowBounds
