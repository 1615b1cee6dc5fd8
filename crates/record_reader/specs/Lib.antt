pub mod Labels
pub mod Headings
pub mod Transactions
pub mod Progress
pub mod Faults
pub mod Reading
pub mod Matching
pub mod Results
