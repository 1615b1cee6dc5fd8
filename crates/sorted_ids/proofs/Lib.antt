mod Flagging
mod Ordering
pub mod Passing
