pub mod Chunks
pub mod Commits
pub mod Tasking
