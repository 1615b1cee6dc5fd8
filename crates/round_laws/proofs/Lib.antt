pub mod Committing
pub mod Tracking
pub mod Turns
pub mod Thinning
pub mod Sharing
pub mod Rounds
pub mod Numbers
pub mod Openness
