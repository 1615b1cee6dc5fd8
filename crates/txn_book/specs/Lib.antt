pub mod Applying
pub mod Sharing
