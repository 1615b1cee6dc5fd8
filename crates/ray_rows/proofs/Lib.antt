pub mod Ends
pub mod SingletonRow
pub mod BoundTightening
pub mod ForcingRow
pub mod ParallelRows
pub mod Starts
