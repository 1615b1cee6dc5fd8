pub mod PlacedColumn
pub mod DroppedColumn
pub mod ParallelColumns
pub mod Images
pub mod DoubletonEquation
