pub mod Worthing
pub mod LoopReads
pub mod SumSteps
pub mod OneVerdict
