pub mod Splitting
pub mod Rows
pub mod Mending
pub mod Staying
pub mod TermWalks
