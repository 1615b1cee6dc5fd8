pub mod Prefixes
pub mod Kept
pub mod Walks
pub mod Rows
pub mod Spans
