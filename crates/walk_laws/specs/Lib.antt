pub mod Walk
pub mod Flaws
