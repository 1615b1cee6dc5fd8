mod Ordinary
mod Tokens
mod Rows
pub mod Named
