pub mod Telling
pub mod Runs
pub mod OneProblem
pub mod Concluding
pub mod TenTimes
mod Apart
mod Distinct
