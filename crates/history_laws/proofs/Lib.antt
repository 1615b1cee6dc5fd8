pub mod Histories
pub mod Sizes
pub mod Telling
pub mod Keeping
pub mod Books
pub mod Worlds
pub mod Walks
