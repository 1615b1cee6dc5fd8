pub mod Signs
pub mod Best
pub mod Steps
