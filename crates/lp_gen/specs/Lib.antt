pub mod Draws
pub mod Columns
pub mod Rows
pub mod Generated
