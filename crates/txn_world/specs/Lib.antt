pub mod Workers
pub mod Events
