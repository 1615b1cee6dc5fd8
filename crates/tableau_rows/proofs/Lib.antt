pub mod Sweeps
pub mod Zeros
pub mod RowLaws
pub mod TurnLaws
