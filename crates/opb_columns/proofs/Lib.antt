pub mod Covering
pub mod Pushing
pub mod Ending
pub mod Defining
