pub mod Exact
pub mod Spans
pub mod RowSums
