pub mod Lifted
pub mod Given
pub mod Postsolved
