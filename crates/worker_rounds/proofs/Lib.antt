pub mod Working
pub mod Flags
pub mod Leaving
pub mod Later
pub mod Complete
pub mod Raced
