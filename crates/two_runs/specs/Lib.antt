pub mod Runs
pub mod ComingBack
pub mod SameAnswers
