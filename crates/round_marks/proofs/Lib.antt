pub mod Sorting
pub mod Restamping
pub mod Reforming
pub mod Watching
