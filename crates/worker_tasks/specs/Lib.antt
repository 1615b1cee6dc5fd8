pub mod Tasks
pub mod Work
