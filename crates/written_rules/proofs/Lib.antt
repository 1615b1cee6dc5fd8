pub mod Locks
pub mod DominatedColumn
pub mod Activities
pub mod CoefficientTightening
pub mod DoubletonEquation
pub mod SoleColumns
pub mod Parallels
