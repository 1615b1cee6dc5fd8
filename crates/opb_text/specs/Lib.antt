pub mod Words
pub mod Tokens
pub mod Faults
pub mod Places
pub mod Statements
pub mod Columns
pub mod Reading
pub mod Program
