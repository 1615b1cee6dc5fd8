pub mod ParallelColumns
pub mod ParallelRows
