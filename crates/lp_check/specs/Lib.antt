pub mod Limits
pub mod Numbered
pub mod Deciding
pub mod Summing
pub mod Placing
pub mod DecidingPairs
pub mod FirstNotContinuous
