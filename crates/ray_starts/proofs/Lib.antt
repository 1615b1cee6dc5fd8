pub mod Placing
pub mod Weighed
pub mod Verdicts
