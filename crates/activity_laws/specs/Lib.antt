pub mod Rows
pub mod RedundantRow
pub mod RedundantSide
pub mod ForcingRow
pub mod BoundTightening
pub mod InfeasibleRow
