pub mod Following
pub mod Saying
