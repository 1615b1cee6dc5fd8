pub mod Places
pub mod Losses
pub mod Across
pub mod Ranks
pub mod Putting
