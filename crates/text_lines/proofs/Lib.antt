pub mod FaultLaws
pub mod LineLaws
pub mod Returns
pub mod Splitting
