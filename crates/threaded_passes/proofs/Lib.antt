pub mod Cutting
pub mod InOrder
pub mod Listing
pub mod Sharing
