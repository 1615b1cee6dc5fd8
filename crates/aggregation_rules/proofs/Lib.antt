pub mod Looks
pub mod Sign
pub mod Walk
pub mod Joining
